-- What a run of vlogrun appends if its text spells the module of a design
mod Runs
