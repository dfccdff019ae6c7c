pub mod Choice
pub mod Lists
pub mod Table
pub mod Tests
