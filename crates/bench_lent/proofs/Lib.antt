mod Thin
