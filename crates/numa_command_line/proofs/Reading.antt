-- What the readers of matches give, by the rows.
use Rattle.std.proofs.Common.{◌≡◌, ◌&&◌, ℕ, Bool, cond, true, false, refl}
use Rattle.std.proofs.Common.{List, [], ◌∷◌, Option, Some, None, Result, Ok, Err}
use Rattle.std.proofs.Common.{nat_lt, lt-ltb, ltb-true}
use Rattle.std.specs.List.{list_all}
use Rattle.std.specs.Char.{digit_value}
use Rattle.std.specs.Prelude.{option_and_then}
use Rattle.std.specs.Str.Parse.{AllDigits, ParsesUnsigned, digits_value, without_leading_plus}
use Rattle.clap.specs.Matches.{ReadsOne}
use Rattle.numa_command_line.specs.Jobs.{Text}
use Rattle.numa_command_line.specs.Values.{is_small, small_in}

and_true : (a b : Bool) → a ≡ true → b ≡ true → (a && b) ≡ true
and_true true true e f = refl
and_true true false e f = f
and_true false b e f = e

and_first : (a b : Bool) → (a && b) ≡ true → a ≡ true
and_first true b e = refl
and_first false b e = e

and_second : (a b : Bool) → (a && b) ≡ true → b ≡ true
and_second true b e = e
and_second false b e = cc

digits_pass : (ds : List ℕ) → AllDigits 10 ds → list_all (λ d. nat_lt (digit_value d) 10) ds ≡ true
digits_pass [] all = refl
digits_pass (d ∷ ds) all = and_true _ _ (lt-ltb _ _ all.0) (digits_pass ds all.1)

digits_from : (ds : List ℕ) → list_all (λ d. nat_lt (digit_value d) 10) ds ≡ true → AllDigits 10 ds
digits_from [] e = tt
digits_from (d ∷ ds) e = (ltb-true _ _ (and_first _ _ e), digits_from ds (and_second _ _ e))

-- a number that was parsed is what its text says
parsed_small : (E : Type 0) (text : Text) (n : ℕ) → ParsesUnsigned {E = E} 32 10 text (Ok n)
    → Some n ≡ small_in text
parsed_small E text n parsed =
    let small : is_small text ≡ true = and_true _ _ (lt-ltb _ _ parsed.0.0.0)
    (and_true _ _ (digits_pass _ parsed.0.0.1) (lt-ltb _ _ parsed.0.1)) in
    rw (small, parsed.1) refl

-- and where none was, it says none
unparsed_small : (E : Type 0) (text : Text) (e : E) → ParsesUnsigned {E = E} 32 10 text (Err e)
    → None ≡ small_in text
unparsed_small E text e never = go (is_small text) refl
  where
    go : (b : Bool) → is_small text ≡ b
        → None ≡ cond b (Some (digits_value 10 (without_leading_plus text))) None
    go false is = refl
    go true is = absurd (never (
      (ltb-true _ _ (and_first _ _ is), digits_from _ (and_first _ _ (and_second _ _ is))),
      ltb-true _ _ (and_second _ _ (and_second _ _ is)),
    ))

-- what `get_one` reads as a number below 2^32
pub small_read : (E : Type 0) (gives : Text → Result ℕ E → Type 0)
    → ((t : Text) (r : Result ℕ E) → gives t r → ParsesUnsigned 32 10 t r)
    → (text : Option Text) (read : Option ℕ) → (text ≡ None → read ≡ None)
    → ((t : Text) → text ≡ Some t → ReadsOne gives t read)
    → read ≡ option_and_then small_in text
small_read E gives only None read none some = none refl
small_read E gives only (Some t) (Some n) none some =
    parsed_small E t n (only t (Ok n) (some t refl))
small_read E gives only (Some t) None none some = let got = some t refl in
    unparsed_small E t got.0 (only t (Err got.0) got.1)
