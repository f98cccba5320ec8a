pub mod Arities
pub mod Legible
pub mod Printed
pub mod Printing
