use Rattle.image_explain.proofs.lines.+append_bits.Given as goal

abbrev pub decreases-append_bits : goal.decreases-append_bits
decreases-append_bits l = l.count
