mod Holders
