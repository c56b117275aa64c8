use Rattle.boot_file.proofs.JoinedMeaning.{joined_means, own_in_order}
use Rattle.boot_file.proofs.law.joined_file_means_its_images.Goals as goal

pub returns-clause-means : goal.returns-clause-means
returns-clause-means c = joined_means

pub returns-clause-own : goal.returns-clause-own
returns-clause-own c = own_in_order
