mod Reading
mod Told
