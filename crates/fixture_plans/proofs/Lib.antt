mod AreThere
mod EachIndexed
