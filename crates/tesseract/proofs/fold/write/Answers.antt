use Rattle.tesseract.specs.calls.Fold.{pieces_text}
use Rattle.tesseract.proofs.Listing.{Puts-page}
use Rattle.tesseract.proofs.fold.write.Goals as goal

pub returns-clause-text : goal.returns-clause-text
returns-clause-text g c =
    Puts-page _ _ _ c.new-page.result _ (pieces_text c.args.pieces.now) _ c.send.result c.new-page.ensures
    c.in_ok-write_listing.ensures.text c.send.ensures.sent
