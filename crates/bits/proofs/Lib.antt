pub mod ChoiceLaws
pub mod FieldLaws
pub mod CountLaws
pub mod WordLaws
pub mod BytesLaws
pub mod PutLaws
pub mod SameLaws
