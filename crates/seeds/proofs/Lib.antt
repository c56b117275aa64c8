-- numbers of at most twenty digits
mod Seeds
