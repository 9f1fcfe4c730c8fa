mod Said
mod Shown
