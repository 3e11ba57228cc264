mod NumberLaws
mod IdLaws
mod EditLaws
