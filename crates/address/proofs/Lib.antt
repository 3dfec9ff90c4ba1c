mod Bytes
pub mod Within
pub mod LetIn
pub mod Replies
