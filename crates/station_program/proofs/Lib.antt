mod Turning
mod Opening
