mod GivenCells
