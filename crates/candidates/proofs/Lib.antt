mod Searches
