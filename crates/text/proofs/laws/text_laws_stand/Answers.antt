use Rattle.text.proofs.Joined.{lines_law, lines_read_law, cells_law, cells_read_law}
use Rattle.text.proofs.Spelled.{printed_law, spelling_law, signed_printed_law, signed_spelling_law}
use Rattle.text.proofs.laws.text_laws_stand.Goals as goal

pub returns : goal.returns
returns c = record {
  lines_law = lines_law;
  lines_read_law = lines_read_law;
  cells_law = cells_law;
  cells_read_law = cells_read_law;
  printed_law = printed_law;
  spelling_law = spelling_law;
  signed_printed_law = signed_printed_law;
  signed_spelling_law = signed_spelling_law;
}
