pub mod Inserted
mod Refusing
