-- `Refusal::words` meets its contract: each text is the definition's.
use Rattle.std.proofs.Common.{sym, ap}
use Rattle.refusal.specs.Words.{words_of}
use Rattle.refusal.proofs.Refusal.words.Goals as goal

pub returns-in-Type : goal.returns-in-Type
returns-in-Type c = sym (ap words_of c.in-Type.is)

pub returns-in-Length : goal.returns-in-Length
returns-in-Length c = sym (ap words_of c.in-Length.is)

pub returns-in-Text : goal.returns-in-Text
returns-in-Text c = sym (ap words_of c.in-Text.is)

pub returns-in-Format : goal.returns-in-Format
returns-in-Format c = sym (ap words_of c.in-Format.is)

pub returns-in-Hello : goal.returns-in-Hello
returns-in-Hello c = sym (ap words_of c.in-Hello.is)

pub returns-in-Marker : goal.returns-in-Marker
returns-in-Marker c = sym (ap words_of c.in-Marker.is)

pub returns-in-Attribute : goal.returns-in-Attribute
returns-in-Attribute c = sym (ap words_of c.in-Attribute.is)

pub returns-in-Key : goal.returns-in-Key
returns-in-Key c = sym (ap words_of c.in-Key.is)

pub returns-in-Carrier : goal.returns-in-Carrier
returns-in-Carrier c = sym (ap words_of c.in-Carrier.is)

pub returns-in-Depth : goal.returns-in-Depth
returns-in-Depth c = sym (ap words_of c.in-Depth.is)

pub returns-in-Rows : goal.returns-in-Rows
returns-in-Rows c = sym (ap words_of c.in-Rows.is)
