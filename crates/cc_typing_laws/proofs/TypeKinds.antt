-- Which fundamental types operators work in.
use Rattle.std.proofs.Common.{◌≡◌, Bool, true, false, cond, ◌||◌, refl, sym}
use Rattle.std.proofs.lemmas.Bool.{false≢true}
use Rattle.cc_tree.specs.declared.type_name.FundamentalType.{FundamentalType}
use Rattle.cc_tree.specs.declared.type_name.FundamentalType.TheVariants as f
use Rattle.cc_core.specs.Typed.{is_number, is_promoted}
use Rattle.cc_operations.specs.Numbers.{core, is_void, is_unsigned_long_long, is_long_long, is_unsigned_int, promoted, common}

pub number_core : (of : FundamentalType) → is_void of ≡ false → is_number (core of) ≡ true
number_core f.Void e = absurd (false≢true (sym e))
number_core f.Bool e = refl
number_core f.WideChar e = refl
number_core f.SignedChar e = refl
number_core f.UnsignedChar e = refl
number_core f.Short e = refl
number_core f.UnsignedShort e = refl
number_core f.Int e = refl
number_core f.UnsignedInt e = refl
number_core f.LongLong e = refl
number_core f.UnsignedLongLong e = refl

pub promoted_core : (of : FundamentalType) → is_void of ≡ false → is_promoted (core (promoted of)) ≡ true
promoted_core f.Void e = absurd (false≢true (sym e))
promoted_core f.Bool e = refl
promoted_core f.WideChar e = refl
promoted_core f.SignedChar e = refl
promoted_core f.UnsignedChar e = refl
promoted_core f.Short e = refl
promoted_core f.UnsignedShort e = refl
promoted_core f.Int e = refl
promoted_core f.UnsignedInt e = refl
promoted_core f.LongLong e = refl
promoted_core f.UnsignedLongLong e = refl

-- a type in which operators work
pub record Works (of : FundamentalType) : Type 0 where
  pub is : is_promoted (core of) ≡ true
  pub valued : is_void of ≡ false

pub promoted_works : (of : FundamentalType) → is_void of ≡ false → Works (promoted of)
promoted_works f.Void e = absurd (false≢true (sym e))
promoted_works f.Bool e = record { is = refl; valued = refl }
promoted_works f.WideChar e = record { is = refl; valued = refl }
promoted_works f.SignedChar e = record { is = refl; valued = refl }
promoted_works f.UnsignedChar e = record { is = refl; valued = refl }
promoted_works f.Short e = record { is = refl; valued = refl }
promoted_works f.UnsignedShort e = record { is = refl; valued = refl }
promoted_works f.Int e = record { is = refl; valued = refl }
promoted_works f.UnsignedInt e = record { is = refl; valued = refl }
promoted_works f.LongLong e = record { is = refl; valued = refl }
promoted_works f.UnsignedLongLong e = record { is = refl; valued = refl }

works_if : (b : Bool) (one other : FundamentalType) → Works one → Works other → Works (cond b one other)
works_if true one other p q = p
works_if false one other p q = q

pub common_works : (one other : FundamentalType) → Works (common one other)
common_works one other =
    works_if (is_unsigned_long_long one || is_unsigned_long_long other) _ _ (record { is = refl; valued = refl })
    (works_if (is_long_long one || is_long_long other) _ _ (record { is = refl; valued = refl })
    (works_if (is_unsigned_int one || is_unsigned_int other) _ _ (record { is = refl; valued = refl }) (record { is = refl; valued = refl })))
