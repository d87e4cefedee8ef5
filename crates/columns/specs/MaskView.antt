-- The list that the fields of a mask hold.
use Rattle.std.specs.Prelude.{Bool, List}
use Rattle.columns.specs.Bits.{IsMaskOf, bits_from}
use Rattle.columns.specs.declared.masks.Mask.TheInside.{Inside}

abbrev pub bits_of : {A : Type 0} → Inside A → List Bool
bits_of mask = bits_from mask.words.items 0 mask.len

-- the words are the mask of the list
abbrev pub IsMask : {A : Type 0} → Inside A → Type 0
IsMask mask = IsMaskOf (bits_of mask) mask.words.items
