-- `put_atom` puts the atom's text, and nothing for a name that is missing.
use Rattle.type_text.specs.Page.{splice_as, splice_nothing, fits_as}
use Rattle.type_text.specs.Measure.{text-bool, text-integer, text-given, text-missing}
use Rattle.type_text.proofs.writer.Writer.put_atom.Goals as goal

pub copy-requires : goal.copy-requires
copy-requires c = fits_as _ _ _ (text-bool _ _ c.in-Bool.is) c.requires

pub copy-requires-in-Integer : goal.copy-requires-in-Integer
copy-requires-in-Integer c = fits_as _ _ _ (text-integer _ _ c.in-Integer.is) c.requires

pub copy-requires-in-Some : goal.copy-requires-in-Some
copy-requires-in-Some c = fits_as _ _ _ (text-given _ _ _ c.in-Given.is _ c.name_at.ensures _ c.in-Some.is) c.requires

pub returns-in-Bool : goal.returns-in-Bool
returns-in-Bool c = splice_as _ _ _ _ _ c.copy.ensures _ (text-bool _ _ c.in-Bool.is)

pub returns-in-Integer : goal.returns-in-Integer
returns-in-Integer c = splice_as _ _ _ _ _ c.copy-in-Integer.ensures _ (text-integer _ _ c.in-Integer.is)

pub returns-in-Some : goal.returns-in-Some
returns-in-Some c = splice_as _ _ _ _ _ c.copy-in-Some.ensures _ (text-given _ _ _ c.in-Given.is _ c.name_at.ensures _ c.in-Some.is)

pub returns-in-None : goal.returns-in-None
returns-in-None c = splice_nothing _ _ (text-missing _ _ _ c.in-Given.is _ c.name_at.ensures c.in-None.is)
