pub mod Answers
pub mod Lists
pub mod Padding
pub mod Promises
pub mod Words
