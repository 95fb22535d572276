mod EdenStarts
