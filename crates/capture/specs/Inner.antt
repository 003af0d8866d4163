pub mod Unlaid
