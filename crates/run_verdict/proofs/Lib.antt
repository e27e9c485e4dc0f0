mod Flow
mod Search
