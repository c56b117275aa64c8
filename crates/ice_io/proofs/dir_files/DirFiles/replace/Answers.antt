use Rattle.ice_io.proofs.dir_files.DirFiles.replace.Goals as goal

pub returns-then-is_err-clause-part : goal.returns-then-is_err-clause-part
returns-then-is_err-clause-part g c = c.store_to-stored.ensures.part c.args.name.now
