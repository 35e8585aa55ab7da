mod Answering
mod Early
mod KnownItems
mod KnownStatements
mod KnownValues
mod Order
