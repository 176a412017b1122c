mod Coming
mod Promising
mod Standing
mod Popped
mod Running
mod Pushed
mod Fetching
mod Turning
