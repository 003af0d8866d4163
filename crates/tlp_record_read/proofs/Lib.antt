pub mod LayLaws
pub mod ReadLaws
