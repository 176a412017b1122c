mod Asking
mod Keeping
mod Walking
