mod Picks
mod Unfold
mod Values
mod Statements
mod Items
mod Tokens
mod Whole
