pub mod Alone
mod Known
mod Numbers
mod Unparsed
mod OneSort
