pub mod LayoutLaws
pub mod PutLaws
pub mod WordLaws
pub mod WriteLaws
