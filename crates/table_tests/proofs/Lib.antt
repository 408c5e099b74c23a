mod Memories
mod Rows
