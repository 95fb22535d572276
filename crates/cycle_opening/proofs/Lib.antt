mod AlikeCells
mod AlikeCycles
mod Chosen
mod Shaded
mod ShownAgain
