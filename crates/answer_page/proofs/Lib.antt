mod AmountLaws
mod FillLaws
mod MarkupLaws
mod NameLaws
mod OwnLaws
mod ReadLaws
mod ToldLaws
