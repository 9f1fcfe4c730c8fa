pub mod OneName
pub mod ReadBack
pub mod Unescaped
