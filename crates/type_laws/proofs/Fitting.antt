-- Types that fit.
use Rattle.std.proofs.Common.{◌≡◌, ◌≢◌, inl, inr, true, Some, None, refl, sym, ap, ◌∙◌}
use Rattle.value.specs.declared.types.ColType.{ColType}
use Rattle.value.specs.declared.types.ColType.TheVariants.{Bigint, Text, Boolean}
use Rattle.typing.specs.Typing.{TypeOf, fits, is_type, is_ordered}
use Rattle.type_laws.specs.Rules.{IsFitting}

-- ---- types that fit

-- what is of the same type fits as well
pub fits_same : (a b t : TypeOf) → a ≡ b → IsFitting b t → IsFitting a t
fits_same a b t e (inl f) = inl (e ∙ f)
fits_same a b t e (inr f) = inr (e ∙ f)

pub fits_further : (a b c : TypeOf) → IsFitting a b → IsFitting b c → IsFitting a c
fits_further a b c (inl e) h = inl e
fits_further a b c (inr e) h = fits_same a b c e h

pub fits_both : (a b : TypeOf) → IsFitting a b → IsFitting b a → a ≡ b
fits_both a b (inr e) h = e
fits_both a b (inl e) (inl f) = e ∙ sym f
fits_both a b (inl e) (inr f) = sym f

-- ---- the tests of type checking

pub same_type : (a b : ColType) → is_type a b ≡ true → a ≡ b
same_type Bigint Bigint h = refl
same_type Text Text h = refl
same_type Boolean Boolean h = refl
same_type Bigint Text h = absurd (cc)
same_type Bigint Boolean h = absurd (cc)
same_type Text Bigint h = absurd (cc)
same_type Text Boolean h = absurd (cc)
same_type Boolean Bigint h = absurd (cc)
same_type Boolean Text h = absurd (cc)

pub fits_by_test : (c : ColType) (a : TypeOf) → fits c a ≡ true → IsFitting a (Some c)
fits_by_test c None h = inl refl
fits_by_test c (Some a) h = inr (ap Some (same_type a c h))

pub is_itself : (a : ColType) → is_type a a ≡ true
is_itself Bigint = refl
is_itself Text = refl
is_itself Boolean = refl

pub test_passes : (c : ColType) (a : TypeOf) → IsFitting a (Some c) → fits c a ≡ true
test_passes c None h = refl
test_passes c (Some a) (inl e) = absurd (cc)
test_passes c (Some a) (inr e) = let same : c ≡ a = cc in ap (is_type a) same ∙ is_itself a

-- ---- the types of min and max

pub not_boolean : (a : TypeOf) → is_ordered a ≡ true → a ≢ Some Boolean
not_boolean a h e = let no : is_ordered (Some Boolean) ≡ true = ap is_ordered (sym e) ∙ h in cc

pub has_order : (a : TypeOf) → a ≢ Some Boolean → is_ordered a ≡ true
has_order None h = refl
has_order (Some Bigint) h = refl
has_order (Some Text) h = refl
has_order (Some Boolean) h = absurd (h refl)
