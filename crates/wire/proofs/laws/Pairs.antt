-- Of a pair of facts the one that is wanted.
abbrev pub first_of_two : {A B : Type 0} → A × B → A
first_of_two h = h.0

abbrev pub second_of_two : {A B : Type 0} → A × B → B
second_of_two h = h.1
