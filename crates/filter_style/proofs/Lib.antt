mod Lined
mod Words
mod Small
