-- What a run keeps before the first row of each sheet.
use Rattle.std.proofs.Common.{◌≡◌}
use Rattle.curve.specs.declared.point.Point.{Point}
use Rattle.register.specs.Contents.{Table}
use Rattle.market.specs.Contents.{Quotes}
use Rattle.sheet.specs.Sheets.{Rest}
use Rattle.run.specs.Kept.{DayLines}

pub same_left : {l m : Rest} → l.lines ≡ m.lines → l.loose ≡ m.loose → l.line ≡ m.line → l ≡ m
same_left lines loose line = λ i. record { lines = lines i; loose = loose i; line = line i }

pub same_quotes : {q p : Quotes} → q.today ≡ p.today → q.next ≡ p.next → q.prices ≡ p.prices → q.percentages ≡ p.percentages → q.room ≡ p.room → q ≡ p
same_quotes today next prices percentages room = λ i. record { today = today i; next = next i; prices = prices i; percentages = percentages i; room = room i }

pub same_held : {h g : Table Point} → h.records ≡ g.records → h.room ≡ g.room → h ≡ g
same_held records room = λ i. record { records = records i; room = room i }

pub same_lines : {k l : DayLines} → k.today ≡ l.today → k.room ≡ l.room → k.standing ≡ l.standing → k ≡ l
same_lines today room standing = λ i. record { today = today i; room = room i; standing = standing i }
