pub mod Numbers
pub mod Written
pub mod Ascii
pub mod Reading
pub mod Slicing
pub mod Exits
pub mod Running
pub mod Binding
