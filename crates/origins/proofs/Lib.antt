pub mod Template
pub mod Entering
pub mod Origins
