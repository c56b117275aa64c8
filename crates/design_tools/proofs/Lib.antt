-- the name of a module, from the command line
mod CommandLines
-- a fabric has few nets, with the inner nets of its pins too
mod FewNets
-- what is written for a design, and what is told if there is none
mod Written
-- the text that is written for a database and an image spells their fabric
mod Fabric
-- what is written for a database and an image that were read
mod Sources
