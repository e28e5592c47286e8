pub mod Subcommands
mod Missing
