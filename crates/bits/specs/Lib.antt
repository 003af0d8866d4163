pub mod Choice
pub mod Field
pub mod Word
pub mod Count
pub mod Put
pub mod Same
