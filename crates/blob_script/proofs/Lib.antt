mod Words
mod CommandWords
