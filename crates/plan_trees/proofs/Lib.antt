mod Items
mod ColumnWalks
mod Written
mod Trees
