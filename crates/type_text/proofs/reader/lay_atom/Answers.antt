-- `lay_atom` puts the atom's record; a name's number has two bytes.
use Rattle.type_text.specs.Lay.{spell-bool, spell-integer, spell-bytes}
use Rattle.type_text.specs.Page.{fits_as, splice_as}
use Rattle.type_text.proofs.reader.lay_atom.Goals as goal

pub copy-requires : goal.copy-requires
copy-requires c = fits_as _ _ _ (spell-bool _ c.in-Bool.is) c.requires.a_in_bounds

pub copy-requires-in-Integer : goal.copy-requires-in-Integer
copy-requires-in-Integer c = fits_as _ _ _ (spell-integer _ c.in-Integer.is) c.requires.a_in_bounds

pub copy-requires-in-Given : goal.copy-requires-in-Given
copy-requires-in-Given c = fits_as _ _ _ (spell-bytes _ _ c.in-Given.is c.requires.small _ c.to_le_bytes.ensures) c.requires.a_in_bounds

pub returns-in-Bool : goal.returns-in-Bool
returns-in-Bool c = splice_as _ _ _ _ _ c.copy.ensures _ (spell-bool _ c.in-Bool.is)

pub returns-in-Integer : goal.returns-in-Integer
returns-in-Integer c = splice_as _ _ _ _ _ c.copy-in-Integer.ensures _ (spell-integer _ c.in-Integer.is)

pub returns-in-Given : goal.returns-in-Given
returns-in-Given c = splice_as _ _ _ _ _ c.copy-in-Given.ensures _ (spell-bytes _ _ c.in-Given.is c.requires.small _ c.to_le_bytes.ensures)
