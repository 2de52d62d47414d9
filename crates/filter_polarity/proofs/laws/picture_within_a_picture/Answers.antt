use Rattle.filter_polarity.proofs.Smaller.{picture-picture}
use Rattle.filter_polarity.proofs.laws.picture_within_a_picture.Goals as goal

pub returns : goal.returns
returns c = picture-picture
