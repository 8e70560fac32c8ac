mod SmallMoves
mod Layouts
mod Accepted
