pub mod Order
pub mod Match
pub mod Next
pub mod Within
pub mod Encode
