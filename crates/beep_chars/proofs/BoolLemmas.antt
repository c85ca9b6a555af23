use Rattle.std.proofs.Common.{◌≡◌, Bool, true, false, ◌&&◌, cond, Option, Some, None, refl, sym}

-- two tests that hold
pub both : (a b : Bool) → a ≡ true → b ≡ true → (a && b) ≡ true
both true b _ is = is
both false b is _ = is

pub left_of : (a b : Bool) → (a && b) ≡ true → a ≡ true
left_of true b _ = refl
left_of false b is = is

pub right_of : (a b : Bool) → (a && b) ≡ true → b ≡ true
right_of true b is = is
right_of false b is = absurd (cc is)

-- what holds on both sides of a test
pub by_test : {A : Type 0} (P : A → Type 0) (b : Bool) {x y : A} → (b ≡ true → P x) → (b ≡ false → P y) → P (cond b x y)
by_test P true yes_then no_then = yes_then refl
by_test P false yes_then no_then = no_then refl

-- the same on both sides
pub same_either : {A : Type 0} (b : Bool) (x : A) → cond b x x ≡ x
same_either true x = refl
same_either false x = refl

pub and-false : (b : Bool) → (b && false) ≡ false
and-false true = refl
and-false false = refl

-- a test that fails leaves nothing
pub none_where : {A : Type 0} (b : Bool) (x : A) (o : Option A) → cond b (Some x) None ≡ o → b ≡ false → o ≡ None
none_where true x o is failed = absurd (cc failed)
none_where false x o is failed = sym is
