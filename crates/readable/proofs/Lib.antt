pub mod Reading
mod Words
