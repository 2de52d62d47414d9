mod LineWords
