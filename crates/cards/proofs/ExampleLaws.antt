-- A row of proofs, one for each card or example: each stands before those that follow.

infixr 4 ◌&◌
pub ◌&◌ : {A B : Type 0} → A → B → A × B
a & b = (a, b)
