mod Turns
mod Shapes
